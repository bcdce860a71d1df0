mod NameLemmas
mod SizeLemmas
mod RowLemmas
