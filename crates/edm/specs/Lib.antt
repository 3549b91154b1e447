pub mod Refusal
pub mod Packet
pub mod Payload
pub mod Frame
pub mod Command
pub mod Inside
pub mod Typed
pub mod Why
