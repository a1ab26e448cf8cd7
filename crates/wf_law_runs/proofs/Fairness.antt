-- The proof of the law of fairness. OldOrder: in each call, the quanta of two stations and their order on
-- the old list change together. Law: so this holds over a stretch, and bounds the charges.
pub mod OldOrder
pub mod Law
