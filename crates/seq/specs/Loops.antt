-- The shelf of loop laws: one record for each kind of loop, which says what the loop has done before a turn, and the laws that a proof of such a loop is made of:
-- it starts (KIND-starts), it goes on (KIND-turns; KIND-takes and KIND-skips where a turn may do nothing), it leaves early (KIND-finds), it ends (KIND-ends).
pub mod Searching
pub mod Filling
pub mod Storing
pub mod Copying
pub mod Placing
pub mod Selecting
pub mod Tallying
pub mod Picking
pub mod Choosing
pub mod Lifting
pub mod Weaving
pub mod Wiping
