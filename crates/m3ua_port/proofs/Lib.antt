pub mod FrameLemmas
pub mod FaultKinds
pub mod ParameterLemmas
pub mod PortLemmas
pub mod Results
pub mod StepLemmas
pub mod WrapLemmas
