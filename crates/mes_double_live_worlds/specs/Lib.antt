pub mod LiveWorlds
pub mod Shows
