-- the writer's calls
pub mod Call
-- what each does: `step`
pub mod Step
-- lists of calls: `runs`
pub mod Runs
-- the widths of their arguments
pub mod Given
-- what the answers of the code mean
pub mod Answers
-- the steps inside a call
pub mod Internal
