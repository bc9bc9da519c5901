-- where a scanned token is
pub mod Places
-- the steps of `scan_at`, as the code takes them
pub mod Steps
