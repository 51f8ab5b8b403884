pub mod BoundLemmas
pub mod FreshLemmas
pub mod FullLemmas
pub mod RemovalLemmas
pub mod PlanLemmas
pub mod WrapCountFacts
pub mod WrapCountLemmas
