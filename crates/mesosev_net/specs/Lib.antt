pub mod NetLines
pub mod Given
pub mod StreamIds
pub mod ServedTurns
pub mod Subscribed
pub mod SubscribedJson
pub mod Unread
pub mod Looped
