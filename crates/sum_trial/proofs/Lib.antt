mod MoreLaws
mod TrialLaws
