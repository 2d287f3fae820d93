pub mod Layout
pub mod Reading
pub mod Views
pub mod Children
