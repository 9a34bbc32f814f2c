pub mod Limits
pub mod Stream
pub mod States
pub mod Served
pub mod Handled
pub mod Saving
pub mod Targets
pub mod Batch
pub mod Installs
pub mod Laws
pub mod inside
-- what public contracts cite of crates below
pub use Rattle.command_frames.specs.Frame
pub use Rattle.tenant.specs.Alone
pub use Rattle.tenant.specs.Batch as TenantBatch
pub use Rattle.saving.specs.SaveParts
pub use Rattle.tenant.specs.State
pub use Rattle.tenant.specs.Counts
pub use Rattle.tenant.specs.Described
