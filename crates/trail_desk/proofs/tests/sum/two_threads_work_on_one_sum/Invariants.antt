use Rattle.trail_desk.proofs.tests.sum.two_threads_work_on_one_sum.Given as goal

-- the table that was just made
abbrev pub ghosts-closed_after_two : goal.ghosts-closed_after_two
ghosts-closed_after_two g a = record { table = a.opened.table }
