mod DocLaws
