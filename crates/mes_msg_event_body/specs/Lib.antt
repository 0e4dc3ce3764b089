pub use Rattle.mes_model_resource.specs.declared.id.Id
pub use Rattle.mes_model_offer.specs.declared.offer.Offer
pub use Rattle.mes_model_task.specs.TaskStates
pub use Rattle.mes_model_task.specs.declared.task_status.TaskStatus
pub mod Bodies
pub mod EventNames
pub mod Offers
