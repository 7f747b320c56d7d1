mod CheckLemmas
mod EnterLemmas
mod RefusalLemmas
mod ScriptLemmas
mod FormLemmas
