-- Laws that the proofs of the functions cite.
pub mod JudgeLaws
pub mod PutLaws
pub mod WriteLaws
