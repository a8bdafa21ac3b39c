mod MarkedLaws
