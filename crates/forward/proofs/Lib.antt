mod LineLaws
mod EntryLaws
