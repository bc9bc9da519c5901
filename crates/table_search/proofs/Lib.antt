-- a search by quarters
mod Quarters
