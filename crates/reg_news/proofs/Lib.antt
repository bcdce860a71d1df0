mod KeyLemmas
mod CodeLemmas
mod CodeLaws
mod RisenLemmas
mod TellingLemmas
mod RevivedLemmas
