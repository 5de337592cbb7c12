mod FairSupplies
