-- the part that a body is
mod Laws
