mod Each
mod FirstPlaces
