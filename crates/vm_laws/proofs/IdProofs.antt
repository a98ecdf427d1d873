pub mod AlongIdHistories
pub mod IdEnds
pub mod IdsInTurn
