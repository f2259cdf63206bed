pub mod FirstClash
pub mod Keyed
pub mod NoneFound
pub mod Published
pub mod Rising
pub mod Together
