use Rattle.opening_laws.proofs.ShownLemmas.{shown}
use Rattle.opening_laws.proofs.laws.a_shown_store_is_opened.Goals as goal

pub returns-clause-shows : goal.returns-clause-shows
returns-clause-shows c head store held cat spare files apart holds spare_holds volumes = shown head store held cat spare files apart holds spare_holds volumes

pub returns-clause-fit : goal.returns-clause-fit
returns-clause-fit c head store fit volume = fit.apart volume
