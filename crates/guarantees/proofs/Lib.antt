-- a file as check reads it
pub mod Files
-- a token as the walk of check takes it
pub mod WalkTokens
-- what the walk of check has gone through
pub mod WalkValues
-- where the walk of check ends
pub mod Ends
-- check accepts every well-formed file
pub mod Accepts
-- and no others
pub mod Accepted
-- a well-formed file in the strict mode, or OVERLONG
pub mod Padded
-- FULL, and the table that check leaves
pub mod Full
-- what a refusal of check says
pub mod Refused
-- which errors each reading call can give
pub mod ReadErrors
-- the row of a kind
pub mod Rows
-- what a value that was read says of the head there
pub mod Heads
-- what the queries promise, of every file
pub mod Queries
-- items by what reading returns
pub mod Items
-- the pairs of a map, as its items
pub mod Pairs
-- what lookup answers means, of every file
pub mod Lookups
-- a token in a region
pub mod Tokens
-- a pointer leads where its target leads
pub mod Pointers
-- the reader returns a well-formed file's values as the pages have them
pub mod ReadsFile
-- following reaches a value that is not a pointer
pub mod Hops
-- what lookup answers of a well-formed file
pub mod ReadsLookup
-- depths of a well-formed file
pub mod Depths
-- paths, depths and hops of every file that check accepts
pub mod AcceptedPaths
-- document 01's samples, proved of the definitions
pub mod Samples
-- over every list of calls the rest of output and table is as it was
pub mod Rest
-- a token written again by its call
pub mod RewritesRead
-- the model takes a well-formed file's values again
pub mod Rewrites
-- what the reference model keeps, call by call
pub mod Invariant
-- a file may begin with its finished values
pub mod Allowed
-- each of its references and pointers names a value before
pub mod Targets
-- a file that it closed is read back
pub mod ReadsBack
-- the values of its parts are those of the calls
pub mod CallValues
-- demands 2 and 3 for the writer
pub mod Demands
-- text is UTF-8
pub mod Texts
-- the demands, restated in their order
pub mod Main
