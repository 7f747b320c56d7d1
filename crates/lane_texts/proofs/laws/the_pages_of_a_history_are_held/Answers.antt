use Rattle.lane_texts.proofs.HistoryLemmas.{history_held, history_page}
use Rattle.lane_texts.proofs.laws.the_pages_of_a_history_are_held.Goals as goal

pub returns-clause-held : goal.returns-clause-held
returns-clause-held c site space count n state history bytes fits holds stand = history_held space count n history bytes fits holds.long stand

pub returns-clause-each : goal.returns-clause-each
returns-clause-each c space count n number history lt = history_page space count n number history lt
