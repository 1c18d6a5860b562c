-- What a clearance sees of each part, and what is answered to whoever asks for a view.
pub mod Seen
pub mod Viewing
