pub mod OpenLaws
pub mod ScanLaws
