mod ShimLaws
