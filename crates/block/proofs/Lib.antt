pub mod WeightsLaws
