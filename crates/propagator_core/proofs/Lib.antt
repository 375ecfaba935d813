pub mod SeveralLaws
pub mod TouchingLaws
