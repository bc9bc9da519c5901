-- the reference model of the writer
pub mod Model
-- what a call is refused for, in any state
pub mod RefusedCall
-- lists of calls, of the writer and of the model
pub mod History
-- the parts of accepted calls
pub mod AcceptedParts
-- longer memory
pub mod Longer
-- what one call may change and leaves
pub mod OneCall
-- lists of calls, and the bytes that they write
pub mod Written
