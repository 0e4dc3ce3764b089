pub use Rattle.mes_msg_call_body.specs.declared.accept.Accept
pub use Rattle.mes_msg_call_body.specs.declared.acknowledge.Acknowledge
pub use Rattle.mes_msg_call_body.specs.declared.decline.Decline
pub use Rattle.mes_msg_call_body.specs.declared.operation.Operation
pub mod Calls
pub mod FirstFaults
