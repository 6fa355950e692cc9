pub mod IntervalLaws
pub mod LowBitsLaws
pub mod ModulusLaws
pub mod PassingLaws
pub mod RegisterLaws
pub mod ValueLaws
