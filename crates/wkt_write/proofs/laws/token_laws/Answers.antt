use Rattle.wkt_write.proofs.Tokens.{word_token, number_token, count_token, text_is}
use Rattle.wkt_write.proofs.laws.token_laws.Goals as goal

pub returns-clause-word : goal.returns-clause-word
returns-clause-word c = word_token

pub returns-clause-number : goal.returns-clause-number
returns-clause-number c = number_token

pub returns-clause-count : goal.returns-clause-count
returns-clause-count c = count_token

pub returns-clause-text : goal.returns-clause-text
returns-clause-text c = text_is
