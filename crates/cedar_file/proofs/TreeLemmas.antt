-- What a walk over a table's nodes has read, and that it has met all held slots.
pub mod AllMet
pub mod Complete
pub mod LooksLikeNode
pub mod TreeRead
pub mod Turns
pub mod WalkEnds
pub mod WhatIsRead
