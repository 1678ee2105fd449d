use Rattle.tests_desks.proofs.ledgers.over_a_port.Given as goal

abbrev pub ghosts-run_with-F-Ledger : goal.ghosts-run_with-F-Ledger
ghosts-run_with-F-Ledger g a = record { name = a.flushed.name; parts = a.flushed.parts }

abbrev pub ghosts-run_with-U-Ledger : goal.ghosts-run_with-U-Ledger
ghosts-run_with-U-Ledger g a = record { name = a.unflushed.name; parts = a.unflushed.parts }

abbrev pub ghosts-run_with-D-Ledger : goal.ghosts-run_with-D-Ledger
ghosts-run_with-D-Ledger g a = record { name = a.drops.name; parts = a.drops.parts }

abbrev pub ghosts-run_with-N-Ledger : goal.ghosts-run_with-N-Ledger
ghosts-run_with-N-Ledger g a = record { name = a.accounts.name; parts = a.accounts.parts }

abbrev pub ghosts-run_with-N-Numbered : goal.ghosts-run_with-N-Numbered
ghosts-run_with-N-Numbered g a = record { number = 7 }
