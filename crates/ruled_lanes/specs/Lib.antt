pub mod FanEnds
pub mod FanProtocol
pub mod HandedBack
pub mod LinkEnds
pub mod LinkProtocol
pub mod TicketProtocol
pub mod TicketSeats
