-- Lists the modules of specs/ of wf_octets.
pub mod Distance
pub mod BitsInverse
pub mod Offsets
pub mod BitsView
pub mod Fields
pub mod Addresses
pub mod HeaderLayout
pub mod HeaderFaults
pub mod GroupLayout
pub mod BlockFaults
pub mod BlockLayout
pub mod Tim
pub mod TimFaults
