-- The measure is the count of digits.
use Rattle.digits.proofs.+put_hex.Given as goal

abbrev pub decreases-put_hex : goal.decreases-put_hex
decreases-put_hex l = l.m
