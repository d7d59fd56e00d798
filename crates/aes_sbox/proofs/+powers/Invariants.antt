use Rattle.aes_sbox.proofs.+powers.Given as goal

-- `powers` calls itself at n - 1, as the definition does.
abbrev pub decreases-powers : goal.decreases-powers
decreases-powers l = l.n
