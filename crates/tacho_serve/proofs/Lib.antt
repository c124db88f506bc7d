mod ServedLemmas
