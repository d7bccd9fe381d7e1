use Rattle.trail_desk.proofs.tests.shelf.five_threads_work_on_one_shelf.Given as goal

-- the table that was just made
abbrev pub ghosts-closed_after_all : goal.ghosts-closed_after_all
ghosts-closed_after_all g a = record { table = a.opened.table }
