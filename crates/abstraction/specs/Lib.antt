pub mod Admits
pub mod Laws
pub mod AdmitsLaws
