-- what check accepts, and when its table is too short
pub mod Accepts
-- what its refusals mean
pub mod Refused
-- what the Twine pages say about a token
pub mod TokenValues
-- the tokens of a file's values by their place, and where following leads
pub mod Places
-- how many items a value has, as reading returns it
pub mod Items
-- text is UTF-8, over files and calls
pub mod Texts
-- what map lookup means
pub mod Lookup
-- which errors each call can give
pub mod Errors
-- what holds for the paths in a file that check accepts
pub mod AcceptedPaths
-- document 01's samples
pub mod Samples
-- what is written so far
pub mod SoFar
-- what the reader gives back for the model's values
pub mod ReadsBack
-- the calls that write values again
pub mod Rewrites
-- what reading must return for what a call wrote
pub mod CallValues
-- the demands
pub mod Demands
