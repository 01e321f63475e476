pub mod Agreement
pub mod InSlots
pub mod Moves
pub mod Order
