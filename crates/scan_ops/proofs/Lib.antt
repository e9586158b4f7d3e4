pub use Rattle.scan_walks.proofs.Segmented
