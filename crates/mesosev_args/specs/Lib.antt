pub mod CommandLine
pub mod NamedOptions
pub mod OptionValues
