-- what only private functions cite
pub mod Internal
