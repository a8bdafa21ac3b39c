pub mod TextAtFront
