mod HeadLaws
