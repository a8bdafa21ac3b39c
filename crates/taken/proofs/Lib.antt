mod ReservedLaws
mod TakenLaws
