mod MovingLemmas
