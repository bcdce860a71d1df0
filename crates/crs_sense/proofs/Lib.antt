mod PrimeLemmas
