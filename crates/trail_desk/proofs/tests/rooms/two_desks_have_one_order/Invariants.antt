use Rattle.trail_desk.proofs.tests.rooms.two_desks_have_one_order.Given as goal

-- the two tables that were just made
abbrev pub ghosts-at_two_desks-B-Room : goal.ghosts-at_two_desks-B-Room
ghosts-at_two_desks-B-Room g a = record { table = a.first.table }

abbrev pub ghosts-at_two_desks-D-Room : goal.ghosts-at_two_desks-D-Room
ghosts-at_two_desks-D-Room g a = record { table = a.second.table }
