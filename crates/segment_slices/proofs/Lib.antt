mod Checked
mod Paired
mod Written
