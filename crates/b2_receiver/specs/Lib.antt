pub mod Receivers
pub mod RightSide
pub mod Assigning
pub mod Receiving
pub mod ReceiverLaws
